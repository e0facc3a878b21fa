-- The end of a file, by the reader's value.
use Rattle.std.proofs.Common.{◌≡◌, ℕ, ◌+◌, ◌-◌, List, [], ◌++◌, drop, Some, None, Result, Ok, Err, refl, ap, sym, ◌∙◌, arith, append-nil}
use Rattle.std.specs.Result.{result_err}
use Rattle.epic_capture.specs.Records.{damaged}
use Rattle.epic_capture.specs.Streams.{first, next}
use Rattle.epic_pcapng.specs.declared.cursor.Skip.{Skip}
use Rattle.epic_pcapng.specs.declared.damage.NgError.{NgError}
use Rattle.epic_pcapng.specs.Damage.{is_truncated}
use Rattle.epic_pcapng.specs.Blocks.{ends}
use Rattle.epic_pcapng.specs.Grammar.{records_from}
use Rattle.epic_pcapng.specs.Reading.{Reading, ngcapture, after_skip}
use Rattle.epic_pcapng.specs.Steps.{IsSound, EndsAs}
use Rattle.epic_pcapng.proofs.Passing.{plain, skipping, inside_of}

-- what was found of the bytes that are left is what is to come
ends_left : (s : Reading) (at : ℕ) (bytes : List ℕ) (r : Result (Unit {0}) NgError) → ngcapture.to_come s [] ≡ records_from s.section at bytes
    → next ngcapture s ≡ Ok None → EndsAs s.section.order at bytes r → ngcapture.to_come s [] ≡ record { items = []; damage = result_err r }
ends_left s at bytes r all none says = all ∙ says s.section refl (sym (ap (first (λ e. is_truncated e.kind)) all) ∙ none)

-- no block is being skipped
pub ends_plain : (s : Reading) (bytes : List ℕ) (r : Result (Unit {0}) NgError) → s.skip ≡ None → bytes ≡ s.held → next ngcapture s ≡ Ok None
    → EndsAs s.section.order s.offset bytes r → ngcapture.to_come s [] ≡ record { items = []; damage = result_err r }
ends_plain s bytes r is same none says =
    let held : s.held ++ [] ≡ bytes = append-nil s.held ∙ sym same in
    ends_left s s.offset bytes r (plain s (s.held ++ []) is ∙ ap (λ (xs : List ℕ). records_from s.section s.offset xs) held) none says

-- a block that is being skipped doesn't end
pub ends_damaged : (s : Reading) (skip : Skip) (e : NgError) → s.skip ≡ Some skip
    → ends s.section.order skip.begin skip.len (s.offset - skip.begin) s.held ≡ Err e → ngcapture.to_come s [] ≡ damaged e
ends_damaged s skip e is end_is = skipping s skip (s.held ++ []) is ∙ at_end
  where
    at_end : after_skip s.section skip s.offset (s.held ++ []) (ends s.section.order skip.begin skip.len (s.offset - skip.begin) (s.held ++ [])) ≡ damaged e
    at_end = rw (append-nil, end_is) refl

-- it does, and these bytes are behind it
pub ends_behind : (s : Reading) (skip : Skip) (at : ℕ) (bytes : List ℕ) (r : Result (Unit {0}) NgError) → s.skip ≡ Some skip → IsSound s
    → ends s.section.order skip.begin skip.len (s.offset - skip.begin) s.held ≡ Ok tt
    → at ≡ s.offset + (skip.len - (s.offset - skip.begin)) → bytes ≡ drop (skip.len - (s.offset - skip.begin)) s.held → next ngcapture s ≡ Ok None
    → EndsAs s.section.order at bytes r → ngcapture.to_come s [] ≡ record { items = []; damage = result_err r }
ends_behind s skip at bytes r is sound end_is at_is bytes_is none says =
    let inside = inside_of s skip sound is in
    let behind_is : skip.begin + skip.len ≡ at = omega (arith, at_is, inside.0, inside.1) in
    ends_left s at bytes r (skipping s skip (s.held ++ []) is ∙ at_end
    ∙ ap (λ (n : ℕ). records_from s.section n (drop (skip.len - (s.offset - skip.begin)) s.held)) behind_is
    ∙ ap (λ (xs : List ℕ). records_from s.section at xs) (sym bytes_is)) none says
  where
    at_end : after_skip s.section skip s.offset (s.held ++ []) (ends s.section.order skip.begin skip.len (s.offset - skip.begin) (s.held ++ []))
        ≡ records_from s.section (skip.begin + skip.len) (drop (skip.len - (s.offset - skip.begin)) s.held)
    at_end = rw (append-nil, end_is) refl
