-- The packets that sources sent, in the order of what they keep on their way.
use Rattle.std.specs.Prelude.{ℕ, ◌-◌, ◌%◌, ◌^◌, List, [], length, min, vec_capacity}
use Rattle.std.specs.Cmp.Lexicographic.{slice_cmp}
use Rattle.std.specs.Ordering.{nat_cmp, then_cmp, on}
use Rattle.std.specs.declared.cmp.Ordering.{Ordering}
use Rattle.epic_layout.specs.Contents.{Contents}
use Rattle.epic_layout.specs.Layout.{parse}
use Rattle.epic_layout.specs.Spelling.{path_bytes}
use Rattle.epic_ledger.specs.Facts.{Sent, as_send}
use Rattle.epic_ledger.specs.History.{History, Emission}
use Rattle.epic_ledger.specs.Indexes.{Kind, IsIndexed}
use Rattle.epic_ledger.specs.Ranks.{host_cmp}
use Rattle.epic_index.specs.declared.sent_as.SentTree.{SentTree}

-- by source, timestamp, first byte, destination, path bytes and payload
unfoldable pub content_cmp : Contents → Contents → Ordering
content_cmp =
    then_cmp
    (then_cmp
    (then_cmp
    (then_cmp (then_cmp (on (λ (p : Contents). p.src) host_cmp) (on (λ (p : Contents). p.ts) nat_cmp)) (on (λ (p : Contents). p.first) nat_cmp))
    (on (λ (p : Contents). p.dst) host_cmp))
    (on (λ (p : Contents). path_bytes p.route) (slice_cmp nat_cmp)))
    (on (λ (p : Contents). p.payload) (slice_cmp nat_cmp))

-- the lower half of the timestamp
unfoldable pub content_tag : Contents → ℕ
content_tag p = p.ts % 2 ^ 32

unfoldable pub no_contents : Contents
no_contents = parse []

abbrev pub sent_kind : List Emission → Kind Sent Contents
sent_kind emissions = record { says = as_send emissions; key = λ s. s.packet; cmp = content_cmp; tag = content_tag; none = no_contents }

-- for how many more packets there is room
abbrev pub sent_room : SentTree → ℕ
sent_room t = min (vec_capacity t.at - length t.at.items) t.keys.spare

-- the tree is of the packets that were sent
abbrev pub IsSentTree : History → SentTree → Type 0
IsSentTree h t = IsIndexed (sent_kind h.emissions) h.events t.at.items t.keys
