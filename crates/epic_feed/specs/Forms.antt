-- The records of a capture, whatever its form.
use Rattle.std.specs.Prelude.{ℕ, Bool, if◌then◌else◌, List, [], ◌∷◌, take, bytes_eq}
use Rattle.std.specs.Option.{option_map}
use Rattle.epic_capture.specs.Records.{Records}
use Rattle.epic_capture.specs.Capture.{records}
use Rattle.epic_capture.specs.Reading.{Reading, capture, is_truncated}
use Rattle.epic_capture.specs.Streams.{Stream}
use Rattle.epic_pcapng.specs.Damage.{is_truncated as is_ng_truncated}
use Rattle.epic_pcapng.specs.Reading.{Reading as NgReading, ngcapture}
use Rattle.epic_pcapng.specs.Grammar.{ngrecords}
use Rattle.epic_feed.specs.declared.damage.Damage.{Damage}
use Rattle.epic_feed.specs.declared.damage.Damage.TheVariants.{Classic, Ng}

-- the same records, with their damage whatever its form
abbrev pub told_as : {E : Type 0} → (E → Damage) → Records E → Records Damage
told_as told r = record { items = r.items; damage = option_map told r.damage }

-- further bytes may mend it
abbrev pub is_early : Damage → Bool
is_early (Classic e) = is_truncated e.kind
is_early (Ng e) = is_ng_truncated e.kind

-- what a reader's values say, with damage whatever its form
abbrev pub told_stream : {S E : Type 0} → (E → Damage) → Stream S E → Stream S Damage
told_stream told stream = record {
  to_come = λ s rest. told_as told (stream.to_come s rest);
  fed = stream.fed;
  held = stream.held;
  size = stream.size;
  is_early = is_early;
}

abbrev pub classic : Stream Reading Damage
classic = told_stream (λ e. Classic e) capture

abbrev pub ng : Stream NgReading Damage
ng = told_stream (λ e. Ng e) ngcapture

-- pcapng begins with these four bytes
unfoldable pub is_ng : List ℕ → Bool
is_ng bytes = bytes_eq (take 4 bytes) (10 ∷ 13 ∷ 13 ∷ 10 ∷ [])

-- the records of a whole file up to its first damage, and that damage
unfoldable pub records_in : List ℕ → Records Damage
records_in bytes = if is_ng bytes then told_as Ng (ngrecords bytes) else told_as Classic (records bytes)
