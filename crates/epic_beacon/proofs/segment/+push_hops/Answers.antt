use Rattle.std.proofs.Common.{◌≡◌, suc, ◌-◌, List, [], ◌∷◌, ◌++◌, sym, ◌∙◌, ap, arith, append_assoc, append-nil}
use Rattle.epic_num.specs.declared.segment.SegHop.{SegHop}
use Rattle.epic_beacon.specs.Segments.{last_hops}
use Rattle.epic_beacon.proofs.Formed.{hops_there, hops_gone, no_hops}
use Rattle.epic_beacon.proofs.segment.+push_hops.Goals as goal

pub returns-then-most-eq0-clause-items : goal.returns-then-most-eq0-clause-items
returns-then-most-eq0-clause-items t c =
    let old = c.args.hops.now.items in
    sym (ap (λ k. old ++ last_hops c.args.beacons.now k c.args.number) c.if-most-eq0.true
    ∙ (ap (λ (hops : List SegHop). old ++ hops) (no_hops c.args.beacons.now c.args.number) ∙ append-nil old))

pub returns-in-None-clause-items : goal.returns-in-None-clause-items
returns-in-None-clause-items t c =
    let old = c.args.hops.now.items in
    let more : c.args.most ≡ suc (c.args.most - 1) = omega arith in
    sym (ap (λ k. old ++ last_hops c.args.beacons.now k c.args.number) more
    ∙ (ap (λ (hops : List SegHop). old ++ hops) (hops_gone c.args.beacons.now (c.args.most - 1) c.args.number (sym c.in-None.ensures)) ∙ append-nil old))

pub returns-in-Some-clause-items : goal.returns-in-Some-clause-items
returns-in-Some-clause-items t c =
    let beacons = c.args.beacons.now in
    let old = c.args.hops.now.items in
    let front = last_hops beacons (c.args.most - 1) c.in-Some.beacon.parent in
    let more : c.args.most ≡ suc (c.args.most - 1) = omega arith in
    let step = hops_there beacons (c.args.most - 1) c.args.number c.in-Some.beacon (sym c.in-Some.ensures) in
    c.push.ensures.items
    ∙ (ap (λ (hops : List SegHop). hops ++ c.hop_of.result ∷ []) c.push_hops.ensures.items
    ∙ (append_assoc old front (c.hop_of.result ∷ [])
    ∙ ap (λ (hops : List SegHop). old ++ hops)
    (ap (λ (h : SegHop). front ++ h ∷ []) c.hop_of.ensures ∙ (sym step ∙ ap (λ k. last_hops beacons k c.args.number) (sym more)))))
