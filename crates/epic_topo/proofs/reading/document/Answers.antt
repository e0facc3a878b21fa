-- The table is what the text is by TOML.
use Rattle.std.proofs.lemmas.Bool.{false≢true}
use Rattle.epic_topo.proofs.Documents.{document_read, no_document}
use Rattle.epic_topo.proofs.reading.document.Goals as goal

pub returns-in-Ok : goal.returns-in-Ok
returns-in-Ok c = document_read c.args.text.now _ c.in-Ok.ensures.ok.0 c.in-Ok.ensures.ok.1

pub returns-else-is_memory : goal.returns-else-is_memory
returns-else-is_memory c =
    rw c.fault.ensures (no_document c.args.text.now (c.in-Err.ensures.refused (λ is. false≢true (c.if-is_memory.ensures.1 is))))
