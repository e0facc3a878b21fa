use Rattle.std.proofs.Common.{rules, ◌≡◌, ◌<◌, ◌≤◌, ◌++◌, List, ℕ, length, true, false, ap, sym, subst, ◌∙◌, inl}
use Rattle.epic_feed.specs.Files.{Holds}
use Rattle.epic_feed.specs.Forms.{classic, is_ng, ng}
use Rattle.epic_feed.proofs.Fronts.{same_kept}
use Rattle.epic_feed.proofs.Whole.{classic_few, classic_reads, feeds_failed_first, feeds_short, feeds_whole, ng_few, ng_reads}
use Rattle.epic_feed.proofs.feeding.feed.Goals as goal

pub returns-in-Err-Failed-clause-feeds : goal.returns-in-Err-Failed-clause-feeds
returns-in-Err-Failed-clause-feeds g c =
    feeds_failed_first (Unit {0}) (g.S.Store.contents c.args.store.now) c.args.name.now (g.S.Store.reads c.args.store.now c.args.name.now) (g.S.Store.reads c.first_bytes.new.store c.args.name.now)
    (λ xs. g.T.Taker.took c.args.taker.now c.args.store.now c.args.out.now xs c.args.taker.now c.first_bytes.new.store c.args.out.now)
    (λ xs y e. g.T.Taker.stopped c.args.taker.now c.args.store.now c.args.out.now xs y e c.args.taker.now c.first_bytes.new.store c.args.out.now)
    (rw c.in-Err-Failed.field-0-is at c.in-Err-Failed.ensures.cause)
    (c.requires.read _ _ _ _ _ _ _ _ (c.requires.none c.args.taker.now c.args.store.now c.args.out.now) c.first_bytes.ensures.contents c.first_bytes.ensures.writes)

pub returns-in-Err-OutOfMemory-clause-feeds : goal.returns-in-Err-OutOfMemory-clause-feeds
returns-in-Err-OutOfMemory-clause-feeds g c = inl (c.requires.read _ _ _ _ _ _ _ _ (c.requires.none c.args.taker.now c.args.store.now c.args.out.now) c.first_bytes.ensures.contents c.first_bytes.ensures.writes)

pub returns-then-len-lt4-clause-feeds : goal.returns-then-len-lt4-clause-feeds
returns-then-len-lt4-clause-feeds g c =
    let few : length c.in-Ok.first.items < 4 = search rules in
    feeds_short (Unit {0}) (g.S.Store.contents c.args.store.now) c.args.name.now c.in-Ok.first.items (g.S.Store.reads c.args.store.now c.args.name.now) (g.S.Store.reads c.first_bytes.new.store c.args.name.now)
    (λ xs. g.T.Taker.took c.args.taker.now c.args.store.now c.args.out.now xs c.args.taker.now c.first_bytes.new.store c.args.out.now)
    (λ xs y e. g.T.Taker.stopped c.args.taker.now c.args.store.now c.args.out.now xs y e c.args.taker.now c.first_bytes.new.store c.args.out.now)
    c.in-Ok.ensures.file few
    (c.requires.read _ _ _ _ _ _ _ _ (c.requires.none c.args.taker.now c.args.store.now c.args.out.now) c.first_bytes.ensures.contents c.first_bytes.ensures.writes)

pub returns-in-Err-clause-feeds : goal.returns-in-Err-clause-feeds
returns-in-Err-clause-feeds g c = inl (c.requires.read _ _ _ _ _ _ _ _ (c.requires.none c.args.taker.now c.args.store.now c.args.out.now) c.first_bytes.ensures.contents c.first_bytes.ensures.writes)

pub feed_by-requires-clause-few : goal.feed_by-requires-clause-few
feed_by-requires-clause-few g c = ng_few c.in-Ok-new.reader c.in-Ok-new.ensures

pub returns-then-is_ng-clause-feeds : goal.returns-then-is_ng-clause-feeds
returns-then-is_ng-clause-feeds g c =
    let opens = c.in-Ok.ensures.file in
    let long : 4 ≤ length c.in-Ok.first.items = search rules in
    let many : 4 ≤ length c.deref-then-is_ng.result.now = subst (λ (bytes : List ℕ). 4 ≤ length bytes) (sym c.deref-then-is_ng.ensures.value) long in
    let form : is_ng c.deref-then-is_ng.result.now ≡ true = ap is_ng (c.deref-then-is_ng.ensures.value ∙ sym c.deref.ensures.value) ∙ (sym c.is_ng.ensures ∙ c.if-is_ng.true) in
    let holds : Holds (g.S.Store.contents c.args.store.now) c.args.name.now (c.deref-then-is_ng.result.now ++ opens.rest)
    = subst (λ (bytes : List ℕ). Holds (g.S.Store.contents c.args.store.now) c.args.name.now (bytes ++ opens.rest)) (sym c.deref-then-is_ng.ensures.value) opens.holds in
    feeds_whole (Unit {0}) (g.S.Store.contents c.args.store.now) c.args.name.now c.deref-then-is_ng.result.now (λ bytes. ng.to_come c.in-Ok-new.reader bytes)
    (g.S.Store.reads c.args.store.now c.args.name.now) (g.S.Store.reads c.first_bytes.new.store c.args.name.now) (g.S.Store.reads c.feed_by.new.store c.args.name.now)
    (λ xs. g.T.Taker.took c.args.taker.now c.args.store.now c.args.out.now xs c.feed_by.new.taker c.feed_by.new.store c.feed_by.new.out)
    (λ xs y e. g.T.Taker.stopped c.args.taker.now c.args.store.now c.args.out.now xs y e c.feed_by.new.taker c.feed_by.new.store c.feed_by.new.out)
    c.feed_by.result (ng_reads c.deref-then-is_ng.result.now c.in-Ok-new.reader many form c.in-Ok-new.ensures) c.first_bytes.ensures.reads.later
    (c.feed_by.ensures.feeds c.args.taker.now c.args.store.now c.args.out.now (g.S.Store.contents c.args.store.now) opens.rest
    (c.requires.read _ _ _ _ _ _ _ _ (c.requires.none c.args.taker.now c.args.store.now c.args.out.now) c.first_bytes.ensures.contents c.first_bytes.ensures.writes)
    (same_kept _ _ _ c.first_bytes.ensures.contents) holds)

pub returns-in-Err-new-clause-feeds : goal.returns-in-Err-new-clause-feeds
returns-in-Err-new-clause-feeds g c = inl (c.requires.read _ _ _ _ _ _ _ _ (c.requires.none c.args.taker.now c.args.store.now c.args.out.now) c.first_bytes.ensures.contents c.first_bytes.ensures.writes)

pub feed_by-requires-2-clause-few : goal.feed_by-requires-2-clause-few
feed_by-requires-2-clause-few g c = classic_few c.in-Ok-new-2.reader c.in-Ok-new-2.ensures

pub returns-clause-feeds : goal.returns-clause-feeds
returns-clause-feeds g c =
    let opens = c.in-Ok.ensures.file in
    let long : 4 ≤ length c.in-Ok.first.items = search rules in
    let many : 4 ≤ length c.deref-2.result.now = subst (λ (bytes : List ℕ). 4 ≤ length bytes) (sym c.deref-2.ensures.value) long in
    let form : is_ng c.deref-2.result.now ≡ false = ap is_ng (c.deref-2.ensures.value ∙ sym c.deref.ensures.value) ∙ (sym c.is_ng.ensures ∙ c.if-is_ng.false) in
    let holds : Holds (g.S.Store.contents c.args.store.now) c.args.name.now (c.deref-2.result.now ++ opens.rest)
    = subst (λ (bytes : List ℕ). Holds (g.S.Store.contents c.args.store.now) c.args.name.now (bytes ++ opens.rest)) (sym c.deref-2.ensures.value) opens.holds in
    feeds_whole (Unit {0}) (g.S.Store.contents c.args.store.now) c.args.name.now c.deref-2.result.now (λ bytes. classic.to_come c.in-Ok-new-2.reader bytes)
    (g.S.Store.reads c.args.store.now c.args.name.now) (g.S.Store.reads c.first_bytes.new.store c.args.name.now) (g.S.Store.reads c.feed_by-2.new.store c.args.name.now)
    (λ xs. g.T.Taker.took c.args.taker.now c.args.store.now c.args.out.now xs c.feed_by-2.new.taker c.feed_by-2.new.store c.feed_by-2.new.out)
    (λ xs y e. g.T.Taker.stopped c.args.taker.now c.args.store.now c.args.out.now xs y e c.feed_by-2.new.taker c.feed_by-2.new.store c.feed_by-2.new.out)
    c.feed_by-2.result (classic_reads c.deref-2.result.now c.in-Ok-new-2.reader many form c.in-Ok-new-2.ensures) c.first_bytes.ensures.reads.later
    (c.feed_by-2.ensures.feeds c.args.taker.now c.args.store.now c.args.out.now (g.S.Store.contents c.args.store.now) opens.rest
    (c.requires.read _ _ _ _ _ _ _ _ (c.requires.none c.args.taker.now c.args.store.now c.args.out.now) c.first_bytes.ensures.contents c.first_bytes.ensures.writes)
    (same_kept _ _ _ c.first_bytes.ensures.contents) holds)
