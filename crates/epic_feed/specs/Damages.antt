-- The words and places of damage, whatever a capture's form.
use Rattle.std.specs.Prelude.{ℕ, List, codes}
use Rattle.epic_capture.specs.declared.damage.CaptureKind.{CaptureKind}
use Rattle.epic_capture.specs.declared.damage.CaptureKind.TheVariants as classic
use Rattle.epic_pcapng.specs.declared.damage.NgKind.{NgKind}
use Rattle.epic_pcapng.specs.declared.damage.NgKind.TheVariants as ng
use Rattle.epic_feed.specs.declared.damage.Damage.{Damage}
use Rattle.epic_feed.specs.declared.damage.Damage.TheVariants.{Classic, Ng}

unfoldable pub classic_word : CaptureKind → List ℕ
classic_word classic.Truncated = codes "truncated"
classic_word classic.Magic = codes "magic"
classic_word classic.VersionNumber = codes "version-number"
classic_word classic.LinkType = codes "link-type"
classic_word classic.Fraction = codes "fraction"
classic_word classic.RecordTooLong = codes "record-too-long"
classic_word classic.PseudoHeader = codes "pseudo-header"
classic_word classic.TooMany = codes "too-many"
classic_word classic.TooLong = codes "too-long"

unfoldable pub ng_word : NgKind → List ℕ
ng_word ng.Truncated = codes "truncated"
ng_word ng.ByteOrder = codes "byte-order"
ng_word ng.BlockLength = codes "block-length"
ng_word ng.BlockTooLong = codes "block-too-long"
ng_word ng.VersionNumber = codes "version-number"
ng_word ng.LinkType = codes "link-type"
ng_word ng.Bad = codes "option"
ng_word ng.Resolution = codes "resolution"
ng_word ng.Interface = codes "interface"
ng_word ng.Moment = codes "moment"
ng_word ng.RecordTooLong = codes "record-too-long"
ng_word ng.PseudoHeader = codes "pseudo-header"
ng_word ng.TooMany = codes "too-many"
ng_word ng.TooLong = codes "too-long"

-- the word of a damage
abbrev pub word_of : Damage → List ℕ
word_of (Classic error) = classic_word error.kind
word_of (Ng error) = ng_word error.kind

-- where it is, in bytes from the file's beginning
abbrev pub offset_of : Damage → ℕ
offset_of (Classic error) = error.offset
offset_of (Ng error) = error.offset
