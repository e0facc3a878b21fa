-- The definitions at work: an up segment 3, 2, 1, a core segment 1, 4 and a down segment 4, 5.
use Rattle.std.proofs.Common.{◌≡◌, ℕ, List, [], ◌∷◌, refl}
use Rattle.std.specs.Prelude.{Bool, true, false, map}
use Rattle.epic_num.specs.declared.hop.Body.{Body}
use Rattle.epic_num.specs.declared.hop.HopName.{HopName}
use Rattle.epic_num.specs.declared.key_name.Holder.TheVariants.{As, Host}
use Rattle.epic_num.specs.declared.key_name.KeyName.TheVariants.{Field}
use Rattle.epic_num.specs.declared.profile.Profile.{Profile}
use Rattle.epic_num.specs.declared.segment.Leg.{Leg}
use Rattle.epic_num.specs.declared.segment.SegHop.{SegHop}
use Rattle.epic_num.specs.declared.segment.SegKind.{SegKind}
use Rattle.epic_num.specs.declared.segment.SegKind.TheVariants.{Core, Child}
use Rattle.epic_num.specs.declared.segment.Segment.{Segment}
use Rattle.epic_num.specs.Chains.{Issue, issue_at, last_names, chain, is_ended, ended_issues}
use Rattle.epic_num.specs.Holders.{holders, is_among}
use Rattle.epic_num.specs.Moments.{bucket, live_buckets, is_live}
use Rattle.epic_num.specs.Paths.{start_of, end_of, meets, are_joined, kind_of, are_lawful_kinds, hop_count, is_lawful, travelled, path_hops}
use Rattle.epic_num.specs.Same.{same_as, same_host, same_holder}
use Rattle.epic_num.specs.Segments.{are_placed_from, are_different, first_hop, last_hop, first_as, last_as, have_one_ts_path, are_closed, is_well_formed}

-- a hop's body at this position, with these interfaces
body_at : ℕ → ℕ → ℕ → Body
body_at pos inn out = record { pos = pos; exp = 63; ts_path = 7; inn = inn; out = out; link = 0 ∷ 0 ∷ 0 ∷ 0 ∷ 0 ∷ 0 ∷ 0 ∷ 0 ∷ [] }

name_at : ℕ → ℕ → ℕ → ℕ → HopName
name_at asn pos inn out = record { asn = record { 0 = asn }; generation = 0; body = body_at pos inn out }

-- ---- issues and their chains: 1, 2, 3 end a segment, 4 goes on from 1 again

four_issues : List Issue
four_issues =
    record { name = name_at 1 1 0 2; parent = 0 }
    ∷ record { name = name_at 2 2 1 2; parent = 1 }
    ∷ record { name = name_at 3 3 1 0; parent = 2 }
    ∷ record { name = name_at 5 2 1 0; parent = 1 }
    ∷ []

chain_of_third : chain four_issues 3 ≡ name_at 1 1 0 2 ∷ name_at 2 2 1 2 ∷ name_at 3 3 1 0 ∷ []
unfolding four_issues name_at body_at chain last_names issue_at
chain_of_third = refl

chain_of_fourth : chain four_issues 4 ≡ name_at 1 1 0 2 ∷ name_at 5 2 1 0 ∷ []
unfolding four_issues name_at body_at chain last_names issue_at
chain_of_fourth = refl

no_chain : chain four_issues 5 ≡ []
unfolding four_issues chain issue_at
no_chain = refl

ended : ended_issues four_issues ≡ 3 ∷ 4 ∷ []
unfolding four_issues name_at body_at ended_issues is_ended issue_at
ended = refl

-- ---- segments and paths

hop_at : ℕ → ℕ → ℕ → ℕ → SegHop
hop_at asn pos inn out = record { issue = 1; asn = record { 0 = asn }; body = body_at pos inn out; sigma = []; generation = 0 }

segment_of : SegKind → List SegHop → Segment
segment_of kind hops = record { kind = kind; hops = record { items = hops } }

leg_of : Segment → Bool → Leg
leg_of segment against = record { segment = segment; against = against }

to_three : Segment
to_three = segment_of Child (hop_at 1 1 0 2 ∷ hop_at 2 2 1 2 ∷ hop_at 3 3 1 0 ∷ [])

between : Segment
between = segment_of Core (hop_at 1 1 0 1 ∷ hop_at 4 2 1 0 ∷ [])

to_five : Segment
to_five = segment_of Child (hop_at 4 1 0 2 ∷ hop_at 5 2 1 0 ∷ [])

lawful : is_lawful (leg_of to_three true ∷ leg_of between false ∷ leg_of to_five false ∷ []) ≡ true
unfolding leg_of to_three between to_five segment_of hop_at body_at is_lawful are_lawful_kinds kind_of is_well_formed are_placed_from have_one_ts_path are_different are_closed first_hop last_hop first_as last_as are_joined meets start_of end_of hop_count same_as
lawful = refl

-- the core segment the other way: the legs don't meet
unjoined : is_lawful (leg_of to_three true ∷ leg_of between true ∷ leg_of to_five false ∷ []) ≡ false
unfolding leg_of to_three between to_five segment_of hop_at body_at is_lawful are_lawful_kinds kind_of is_well_formed are_placed_from have_one_ts_path are_different are_closed first_hop last_hop first_as last_as are_joined meets start_of end_of hop_count same_as
unjoined = refl

-- travelled from the other end
back : is_lawful (leg_of to_five true ∷ leg_of between true ∷ leg_of to_three false ∷ []) ≡ true
unfolding leg_of to_three between to_five segment_of hop_at body_at is_lawful are_lawful_kinds kind_of is_well_formed are_placed_from have_one_ts_path are_different are_closed first_hop last_hop first_as last_as are_joined meets start_of end_of hop_count same_as
back = refl

core_first : are_lawful_kinds (map (λ l. kind_of l.segment.kind l.against) (leg_of between true ∷ leg_of to_three true ∷ [])) ≡ false
unfolding leg_of to_three between segment_of are_lawful_kinds kind_of
core_first = refl

one_hop : is_well_formed (segment_of Core (hop_at 1 1 0 0 ∷ [])) ≡ false
unfolding segment_of hop_at body_at is_well_formed are_placed_from have_one_ts_path are_different are_closed first_hop last_hop same_as
one_hop = refl

one_as_twice : is_well_formed (segment_of Core (hop_at 1 1 0 1 ∷ hop_at 1 2 1 0 ∷ [])) ≡ false
unfolding segment_of hop_at body_at is_well_formed are_placed_from have_one_ts_path are_different are_closed first_hop last_hop same_as
one_as_twice = refl

ases_in_travel_order : map (λ h. h.asn.0) (path_hops (leg_of to_three true ∷ leg_of between false ∷ leg_of to_five false ∷ [])) ≡ 3 ∷ 2 ∷ 1 ∷ 1 ∷ 4 ∷ 4 ∷ 5 ∷ []
unfolding leg_of to_three between to_five segment_of hop_at path_hops travelled
ases_in_travel_order = refl

-- ---- holders

field_holders : holders (Field (record { 0 = 1 }) (record { asn = record { 0 = 2 }; host = 3 }) 9) ≡ As (record { 0 = 1 }) ∷ As (record { 0 = 2 }) ∷ Host (record { asn = record { 0 = 2 }; host = 3 }) ∷ []
unfolding holders
field_holders = refl

other_host : is_among (Host (record { asn = record { 0 = 2 }; host = 4 })) (holders (Field (record { 0 = 1 }) (record { asn = record { 0 = 2 }; host = 3 }) 9)) ≡ false
unfolding is_among holders same_holder same_host same_as
other_host = refl

-- ---- time

shared : Profile
shared = record { lifetime_us = 2000000; skew_us = 1000000; epoch_us = 86400000000; window = 4096 }

last_live : is_live shared 1700000000000000 1700000002211839 ≡ true
unfolding shared is_live live_buckets bucket
last_live = refl

first_dead : is_live shared 1700000000000000 1700000002211840 ≡ false
unfolding shared is_live live_buckets bucket
first_dead = refl
