-- Small ledgers, one for each line of the two tables, and one of which all is kept. The keys' tags stay shut: two hops
-- with one authenticator are told here by generations that are the same modulo 2 ^ 32.
use Rattle.std.proofs.Common.{◌≡◌, ℕ, ◌^◌, true, false, List, [], ◌∷◌, replicate, refl}
use Rattle.std.proofs.lemmas.Slice.Eq.{bytes_eq-Decides}
use Rattle.epic_num.specs.declared.hop.HopName.{HopName}
use Rattle.epic_num.specs.declared.key_name.Holder.{Holder}
use Rattle.epic_num.specs.declared.key_name.Holder.TheVariants.{As, Host}
use Rattle.epic_num.specs.declared.key_name.KeyName.TheVariants.{Fwd, Field, Dest}
use Rattle.epic_num.specs.declared.name.AsId.{AsId}
use Rattle.epic_num.specs.declared.name.HostId.{HostId}
use Rattle.epic_num.specs.declared.verdict.ForgedKind.TheVariants as kind
use Rattle.epic_num.specs.declared.verdict.Part.TheVariants.{Link, Sigma}
use Rattle.epic_num.specs.declared.verdict.Verdict.TheVariants.{Proved, Unclaimed, Opened, Forged, Collided}
use Rattle.epic_num.specs.BigEndian.{u16_bytes, u32_bytes}
use Rattle.epic_num.specs.Chains.{Issue, issue_at, name_of}
use Rattle.epic_num.specs.Holders.{holders}
use Rattle.epic_num.specs.Levels.{is_tagged, level_of, level_number}
use Rattle.epic_num.specs.Messages.{forwarding_message}
use Rattle.epic_num.specs.Moments.{epoch_of}
use Rattle.epic_num.specs.Same.{same_as, same_host, same_body, same_name, same_holder}
use Rattle.epic_layout.specs.Contents.{Contents, field}
use Rattle.epic_layout.specs.Route.{Route, place, place_from, position, is_first, hop, body}
use Rattle.epic_layout.specs.Spelling.{segment_bytes, hop_bytes, path_bytes}
use Rattle.epic_topo.specs.declared.link_kind.LinkKind.TheVariants.{Parent}
use Rattle.epic_topo.specs.Network.{Network}
use Rattle.epic_keys.specs.Keys.{key, forwarding_key}
use Rattle.epic_fields.specs.Tags.{sigma, hop_key}
use Rattle.epic_fields.specs.PacketTags.{tag_over, update_over, shared_key, field_name, dest_name, update_of}
use Rattle.epic_ledger.specs.Facts.{Facts, Sent, Pass, Reveal, pass_name, sent_issue, sent_name}
use Rattle.epic_num.specs.Chains.{ancestor}
use Rattle.epic_ledger.specs.Queries.{issue_of, is_send_of, is_pass_of, same_path, is_on_path, chain_pass, reveal_of}
use Rattle.epic_num.specs.Levels.{is_timed, is_updated}
use Rattle.epic_audit.specs.Clauses.{higher, lower, is_sent_like, is_sent_as, sent_as}
use Rattle.epic_audit.specs.Reveals.{is_revealed, reveal_step}
use Rattle.epic_audit.specs.declared.uncovered.Uncovered.{Uncovered}
use Rattle.epic_audit.proofs.Decided.{is_twin-Decides}
use Rattle.epic_audit.specs.Verdicts.{is_twin, twin_issue, is_child, parent_name, broken_between, broken_chain, source_of, twin_sent, hop_verdict, is_uncovered, uncovered_in, uncovered, has_update, is_twin_pass, twin_pass, dest_verdict}

-- ---- a parent and its child, and a path between them

abbrev pub parent : AsId
parent = record { 0 = 1 }

abbrev pub child : AsId
child = record { 0 = 2 }

abbrev pub src : HostId
src = record { asn = parent; host = 7 }

abbrev pub dst : HostId
dst = record { asn = child; host = 9 }

abbrev pub topology : Network
topology = record {
  profile = record { lifetime_us = 2000000; skew_us = 1000000; epoch_us = 1000000; window = 16 };
  systems = record { asn = parent; is_core = true; master = [] } ∷ record { asn = child; is_core = false; master = [] } ∷ [];
  links = record { kind = Parent; a = record { asn = parent; iface = 1 }; b = record { asn = child; iface = 1 } } ∷ [];
}

-- the first hop of the segment, and one that differs in its expiry
abbrev pub first : ℕ → HopName
first exp = record {
  asn = parent;
  generation = 0;
  body = record { pos = 1; exp = exp; ts_path = 5; inn = 0; out = 1; link = replicate 8 0 };
}

-- the next one, with a link tag and of a generation
abbrev pub next : List ℕ → ℕ → HopName
next tag generation = record {
  asn = child;
  generation = generation;
  body = record { pos = 2; exp = 3; ts_path = 5; inn = 1; out = 0; link = tag };
}

abbrev pub route : List ℕ → Route
route tag = record {
  segments = record { against = false; count = 2; ts_path = 5 } ∷ [];
  hops = record { exp = 3; inn = 0; out = 1; link = replicate 8 0 } ∷ record { exp = 3; inn = 1; out = 0; link = tag } ∷ [];
}

-- the packet over both, with a first byte and fields
abbrev pub packet : List ℕ → ℕ → List (List ℕ) → Contents
packet tag byte fields = record {
  first = byte;
  current = 0;
  src = src;
  dst = dst;
  ts = 6000000;
  route = route tag;
  fields = fields;
  dest_field = [];
  payload = 1 ∷ [];
}

abbrev pub issue : HopName → ℕ → Issue
issue x number = record { name = x; parent = number }

-- sent over the issue of a number
abbrev pub send : Contents → ℕ → Sent
send p number = record { emission = 1; segments = number ∷ []; packet = p }

-- accepted at an index
abbrev pub pass : HopName → ℕ → Contents → Pass
pass x j p = record { asn = x.asn; generation = x.generation; hop = j; emission = 2; packet = p }

abbrev pub ledger : List Issue → List Sent → List Pass → List Reveal → Facts
ledger issues sends passes reveals = record { issues = issues; sends = sends; passes = passes; reveals = reveals }

-- ---- a link tag that is no more than eight bytes

abbrev pub tag : List ℕ
tag = replicate 8 4

abbrev pub x : HopName
x = next tag 0

-- a hop with the same authenticator
abbrev pub twin : HopName
twin = next tag (2 ^ 32)

abbrev pub level0 : Contents
level0 = packet tag 0xE0 []

abbrev pub level3 : Contents
level3 = packet tag 0xE3 []

abbrev pub chain : List Issue
chain = issue (first 3) 0 ∷ issue x 1 ∷ []

abbrev pub reveal : Holder → ℕ → Reveal
reveal h step = record { step = step; holder = h }

-- the same of the first hop
abbrev pub first_twin : HopName
first_twin = record (first 3) { generation = 2 ^ 32 }

same_sigma : sigma topology twin ≡ sigma topology x
unfolding sigma hop_key key forwarding_key forwarding_message u32_bytes
same_sigma = refl

are_twins : is_twin topology x twin ≡ true
are_twins = (is_twin-Decides topology x twin).1 (refl, same_sigma)

same_first_sigma : sigma topology first_twin ≡ sigma topology (first 3)
unfolding sigma hop_key key forwarding_key forwarding_message u32_bytes
same_first_sigma = refl

are_first_twins : is_twin topology (first 3) first_twin ≡ true
are_first_twins = (is_twin-Decides topology (first 3) first_twin).1 (refl, same_first_sigma)

-- ---- the verdict of hop 1

unissued_opened : hop_verdict topology (ledger [] [] [] (reveal (As child) 3 ∷ [])) x level3 1 ≡ Opened 3
unfolding issue_of reveal_step reveal_of same_holder same_as
unissued_opened = refl

unissued_forged : hop_verdict topology (ledger [] [] [] []) x level3 1 ≡ Forged (record { kind = kind.Issue; hop = 1; key = Fwd child 0; generation = 0 })
unfolding issue_of reveal_step reveal_of twin_issue is_timed is_updated level_of level_number
unissued_forged = refl

-- the last issue goes on from another first hop
unchained : hop_verdict topology (ledger (issue (first 3) 0 ∷ issue (first 9) 0 ∷ issue x 2 ∷ []) [] (pass (first 3) 0 level3 ∷ []) []) x level3 1
    ≡ Collided (record { part = Link; left = first 3; right = first 9 })
unfolding issue_of same_name same_as same_body broken_chain is_first place place_from chain_pass is_on_path same_path path_bytes segment_bytes hop_bytes u16_bytes u32_bytes pass_name body hop position higher lower broken_between is_child name_of issue_at parent_name
unchained = refl

proved_static : hop_verdict topology (ledger chain [] (pass (first 3) 0 level0 ∷ []) []) x level0 1 ≡ Proved 2 0
unfolding issue_of same_name same_as same_body broken_chain is_first place place_from chain_pass is_on_path same_path path_bytes segment_bytes hop_bytes u16_bytes u32_bytes pass_name body hop position higher lower broken_between is_child name_of issue_at is_tagged
proved_static = refl

proved_sent : hop_verdict topology (ledger chain (send level3 2 ∷ []) [] []) x level3 1 ≡ Proved 2 1
unfolding issue_of same_name same_as same_host same_body broken_chain is_first place place_from chain_pass is_tagged source_of is_sent_like is_send_of sent_name sent_issue ancestor issue_at name_of position
proved_sent = refl

unsourced_opened : hop_verdict topology (ledger chain [] [] (reveal (Host src) 8 ∷ reveal (As parent) 4 ∷ [])) x level3 1 ≡ Opened 4
unfolding issue_of same_name same_as same_host same_holder same_body broken_chain is_first place place_from chain_pass is_tagged source_of field_name holders reveal_step reveal_of
unsourced_opened = refl

unsourced_forged : hop_verdict topology (ledger chain [] [] []) x level3 1
    ≡ Forged (record { kind = kind.Field; hop = 1; key = Field child src 6; generation = 0 })
unfolding issue_of same_name same_as same_host same_holder same_body broken_chain is_first place place_from chain_pass is_tagged source_of field_name holders reveal_step reveal_of twin_sent epoch_of
unsourced_forged = refl

unissued_collided : hop_verdict topology (ledger (issue twin 0 ∷ []) [] [] []) x level3 1 ≡ Collided (record { part = Sigma; left = x; right = twin })
unfolding issue_of same_name same_as same_body reveal_step reveal_of twin_issue is_timed is_updated level_of level_number
unissued_collided = rw are_twins refl

unsourced_collided : hop_verdict topology (ledger (issue (first 3) 0 ∷ issue x 1 ∷ issue twin 1 ∷ []) (send level3 3 ∷ []) [] []) x level3 1
    ≡ Collided (record { part = Sigma; left = x; right = twin })
unfolding issue_of same_name same_as same_host same_holder same_body broken_chain is_first place place_from chain_pass is_tagged source_of is_sent_like is_send_of sent_name sent_issue ancestor issue_at name_of position field_name holders reveal_step reveal_of twin_sent
unsourced_collided = rw are_twins refl

-- ---- the verdict of the destination

unclaimed : dest_verdict topology (ledger [] [] [] []) level0 ≡ Unclaimed
unfolding is_tagged
unclaimed = refl

abbrev pub level2 : Contents
level2 = packet tag 0xE2 []

arrived_level2 : dest_verdict topology (ledger chain (send level2 2 ∷ []) [] []) level2 ≡ Proved 0 1
unfolding is_tagged sent_as is_sent_as is_sent_like is_send_of same_host same_as same_path path_bytes segment_bytes hop_bytes u16_bytes u32_bytes uncovered uncovered_in is_timed is_updated level_of level_number
arrived_level2 = refl

arrived : dest_verdict topology (ledger chain (send level3 2 ∷ []) (pass (first 3) 0 level3 ∷ pass x 1 level3 ∷ []) []) level3 ≡ Proved 0 1
unfolding is_tagged sent_as is_sent_as is_sent_like is_send_of same_host same_as same_path path_bytes segment_bytes hop_bytes u16_bytes u32_bytes uncovered uncovered_in is_timed is_updated level_of level_number is_revealed reveal_of is_uncovered sent_name sent_issue ancestor issue_at name_of place place_from position is_pass_of same_name same_body pass_name body hop
arrived = refl

unsent_opened : dest_verdict topology (ledger [] [] [] (reveal (Host dst) 5 ∷ [])) level3 ≡ Opened 5
unfolding is_tagged sent_as uncovered dest_name holders reveal_step reveal_of same_holder same_host same_as
unsent_opened = refl

unsent_forged : dest_verdict topology (ledger [] [] [] []) level3 ≡ Forged (record { kind = kind.Dest; hop = 0; key = Dest dst src 6; generation = 0 })
unfolding is_tagged sent_as uncovered dest_name holders reveal_step reveal_of epoch_of
unsent_forged = refl

-- the packet with the first hop's update
abbrev pub updated : Contents
updated = packet tag 0xE3 (update_of topology (first 3) level3 0 ∷ [] ∷ [])

abbrev pub at_first : Uncovered
at_first = record { hop = 0; name = first 3 }

updated_there : has_update topology updated at_first ≡ true
unfolding has_update update_of update_over tag_over shared_key field_name field
updated_there = (bytes_eq-Decides (field updated 0) (update_of topology (first 3) updated 0)).1 refl

not_given_out : dest_verdict topology (ledger chain (send level3 2 ∷ []) [] []) updated
    ≡ Forged (record { kind = kind.Update; hop = 0; key = Field parent src 6; generation = 0 })
unfolding is_tagged sent_as is_sent_as is_sent_like is_send_of same_host same_as same_path path_bytes segment_bytes hop_bytes u16_bytes u32_bytes uncovered uncovered_in is_timed is_updated level_of level_number is_revealed reveal_of is_uncovered sent_name sent_issue ancestor issue_at name_of place place_from position twin_pass field_name epoch_of
not_given_out = rw updated_there refl

given_out_for_twin : dest_verdict topology (ledger chain (send level3 2 ∷ []) (pass first_twin 0 level3 ∷ []) []) updated
    ≡ Collided (record { part = Sigma; left = first_twin; right = first 3 })
unfolding is_tagged sent_as is_sent_as is_sent_like is_send_of same_host same_as same_path path_bytes segment_bytes hop_bytes u16_bytes u32_bytes uncovered uncovered_in is_timed is_updated level_of level_number is_revealed reveal_of is_uncovered sent_name sent_issue ancestor issue_at name_of place place_from position is_pass_of same_name same_body pass_name body hop twin_pass is_twin_pass
given_out_for_twin = rw (updated_there, are_first_twins) refl
