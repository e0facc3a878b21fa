-- A ledger of which all is kept: two issues, a level 3 packet over them, both its hops accepted, and a reveal.
use Rattle.std.proofs.Common.{◌≡◌, ℕ, zero, suc, ◌<◌, true, List, [], ◌∷◌, Some, refl, sym, ◌∙◌, subst, arith, inl, inr}
use Rattle.std.specs.Prelude.{slice_get}
use Rattle.std.proofs.lemmas.List.Elements.{All-cons, All-nil}
use Rattle.std.proofs.lemmas.Option.{same_Some}
use Rattle.std.proofs.lemmas.Slice.Eq.{bytes_eq-Decides}
use Rattle.epic_num.specs.declared.key_name.Holder.TheVariants.{As}
use Rattle.epic_num.specs.declared.hop.HopName.{HopName}
use Rattle.epic_num.specs.Chains.{Issue, issue_at, name_of, is_ended}
use Rattle.epic_num.specs.Levels.{level_of}
use Rattle.epic_num.specs.Same.{same_as}
use Rattle.epic_num.proofs.ChainLaws.{issue_at-zero, issue_at-suc}
use Rattle.epic_layout.specs.Contents.{Contents, field}
use Rattle.epic_layout.specs.Route.{place, place_from, position, is_first, is_last, successor, ingress, egress, hop, body}
use Rattle.epic_layout.specs.Spelling.{dest_message}
use Rattle.epic_topo.specs.declared.link_kind.LinkKind.TheVariants.{Parent}
use Rattle.epic_topo.specs.Network.{has, neighbour}
use Rattle.epic_fields.specs.Issues.{IsKept, IssuesKept}
use Rattle.epic_fields.specs.Tags.{link}
use Rattle.epic_fields.specs.Formulas.{dest_tag}
use Rattle.epic_fields.specs.HopChecks.{carries_link, has_link}
use Rattle.epic_fields.specs.PacketTags.{tag_over, field_by, field_over, update_over, field_name, dest_name, shared_key, field_of, update_of, dest_field_of}
use Rattle.epic_ledger.specs.Facts.{Facts, Sent, pass_name, sent_issue, sent_name}
use Rattle.epic_num.specs.Chains.{ancestor}
use Rattle.epic_audit.specs.Kept.{IsKeptPass, PassesKept, IsKeptHop, IsKeptSend, AreApart, RevealsKept, Kept}
use Rattle.epic_audit.specs.Made.{sent_update, sent_updates}
use Rattle.epic_audit.proofs.VerdictExamples.{child, topology, first, next, packet, issue, send, pass, ledger, reveal}

-- the link tag that the next hop carries
abbrev tag : List ℕ
tag = link topology (first 3)

abbrev x : HopName
x = next tag 0

abbrev issues : List Issue
issues = issue (first 3) 0 ∷ issue x 1 ∷ []

-- the packet without its tags, with its fields, and with its destination field
abbrev bare : Contents
bare = packet tag 0xE3 []

abbrev with_fields : Contents
with_fields = packet tag 0xE3 (field_of topology (first 3) bare 0 ∷ field_of topology x bare 1 ∷ [])

abbrev whole : Contents
whole = record with_fields { dest_field = dest_field_of topology with_fields (sent_updates topology issues (send with_fields 2)) }

abbrev facts : Facts
facts = ledger issues (send whole 2 ∷ []) (pass (first 3) 0 whole ∷ pass x 1 whole ∷ []) (reveal (As child) 4 ∷ [])

-- ---- issues

first_kept : IsKept topology issues 1 (issue (first 3) 0)
unfolding same_as has neighbour
first_kept = record {
  known = refl;
  egress = inr refl;
  placed = inl (record { no_parent = refl; position = refl; no_ingress = refl; no_link = refl });
}

next_kept : IsKept topology issues 2 (issue x 1)
unfolding same_as has neighbour issue_at
next_kept = record {
  known = refl;
  egress = inl refl;
  placed = inr (record {
    parent = issue (first 3) 0;
    kind = Parent;
    some_parent = λ e. cc;
    earlier = omega arith;
    is_parent = refl;
    position = refl;
    linked = refl;
    behind = refl;
  });
}

issues_kept : IssuesKept topology issues
issues_kept zero i e = let none = issue_at-zero issues in absurd (cc)
issues_kept (suc zero) i e = subst (IsKept topology issues 1) (same_Some (issue (first 3) 0) i (sym (issue_at-suc issues 0) ∙ e)) first_kept
issues_kept (suc (suc zero)) i e = subst (IsKept topology issues 2) (same_Some (issue x 1) i (sym (issue_at-suc issues 1) ∙ e)) next_kept
issues_kept (suc (suc (suc n))) i e = let none = sym (issue_at-suc issues (suc (suc n))) ∙ e in absurd (cc)

-- ---- accepted hops

first_passed : IsKeptPass topology (pass (first 3) 0 whole)
unfolding same_as has has_link carries_link pass_name place place_from position successor is_first is_last ingress egress hop body
first_passed = record {
  known = refl;
  within = omega arith;
  linked = (bytes_eq-Decides tag tag).1 refl;
  no_ingress = λ e. refl;
  no_egress = λ e. absurd (cc);
}

next_passed : IsKeptPass topology (pass x 1 whole)
unfolding same_as has has_link carries_link pass_name place place_from position successor is_first is_last ingress egress hop body
next_passed = record {
  known = refl;
  within = omega arith;
  linked = refl;
  no_ingress = λ e. absurd (cc);
  no_egress = λ e. refl;
}

passes_kept : PassesKept topology facts.passes
passes_kept zero w e = subst (IsKeptPass topology) (same_Some (pass (first 3) 0 whole) w e) first_passed
passes_kept (suc zero) w e = subst (IsKeptPass topology) (same_Some (pass x 1 whole) w e) next_passed
passes_kept (suc (suc n)) w e = absurd (cc)

-- ---- sent packets

first_hop : IsKeptHop topology issues (send whole 2) 0
unfolding sent_name sent_issue ancestor issue_at name_of place place_from position body hop field field_of field_over field_by tag_over shared_key field_name level_of
first_hop = record { name = first 3; named = refl; body_is = refl; field_is = refl }

next_hop : IsKeptHop topology issues (send whole 2) 1
unfolding sent_name sent_issue ancestor issue_at name_of place place_from position body hop field field_of field_over field_by tag_over shared_key field_name level_of
next_hop = record { name = x; named = refl; body_is = refl; field_is = refl }

hops_kept : (j : ℕ) → j < 2 → IsKeptHop topology issues (send whole 2) j
hops_kept zero lt = first_hop
hops_kept (suc zero) lt = next_hop
hops_kept (suc (suc j)) lt = absurd (omega arith)

ended : is_ended issues 2 ≡ true
unfolding is_ended issue_at
ended = refl

-- the destination field rests on no field of the packet
dest_field_is : whole.dest_field ≡ dest_field_of topology whole (sent_updates topology issues (send whole 2))
unfolding dest_field_of dest_tag dest_message dest_name sent_updates sent_update sent_name sent_issue update_of update_over tag_over shared_key field_name
dest_field_is = refl

send_kept : IsKeptSend topology issues (send whole 2)
send_kept = record {
  ended = All-cons (λ number. is_ended issues number ≡ true) 2 [] ended (All-nil (λ number. is_ended issues number ≡ true));
  hops = hops_kept;
  dest_field_is = λ e. dest_field_is;
}

sends_each : (n : ℕ) (s : Sent) → slice_get facts.sends n ≡ Some s → IsKeptSend topology issues s
sends_each zero s e = subst (IsKeptSend topology issues) (same_Some (send whole 2) s e) send_kept
sends_each (suc n) s e = absurd (cc)

apart : AreApart facts.sends
apart zero zero r s a b src ts = refl
apart zero (suc n) r s a b src ts = absurd (cc)
apart (suc m) n r s a b src ts = absurd (cc)

reveals_apart : RevealsKept facts.reveals
reveals_apart zero zero r s a b same = refl
reveals_apart zero (suc n) r s a b same = absurd (cc)
reveals_apart (suc m) n r s a b same = absurd (cc)

all_kept : Kept topology facts
all_kept = record {
  issues = issues_kept;
  passes = passes_kept;
  sends = record { each = sends_each; apart = apart };
  reveals = reveals_apart;
}
