-- What a sink over a writer is made of.
use Rattle.std.specs.Prelude.{ℕ}
use Rattle.epic_ports.specs.declared.std_sink.StdSink.{StdSink}

-- the writer that it writes to
abbrev pub writer_of : {W : Type 0} → StdSink W → W
writer_of sink = sink.writer

-- how many writes failed
abbrev pub faults_of : {W : Type 0} → StdSink W → ℕ
faults_of sink = sink.faults
