use Rattle.std.proofs.Common.{rules, [], None, refl, arith}
use Rattle.epic_feed.proofs.Fronts.{kept_itself, same_both, same_kept}
use Rattle.epic_feed.proofs.Steps.{counts_both, counts_same, feeds_damaged, feeds_end, feeds_failed, feeds_memory, feeds_stopped, follows_err, follows_none, follows_some, going_more, going_record, going_start, has_room, rose_since, still_none}
use Rattle.epic_feed.proofs.feeding.feed_by.Goals as goal

pub loop-found-init : goal.loop-found-init
loop-found-init g c = (
  λ x s o files rest from told holds. going_start g.R.Form.stream files c.args.name.now c.args.first.now c.args.reader.now c.feed-at.new.self c.feed-at.result
      (g.T.Taker.room c.args.taker.now) _ c.requires.held c.requires.fed c.requires.first g.met.R.Form.is_large rest holds
      c.feed-at.ensures.count c.feed-at.ensures.held c.feed-at.ensures.fed c.feed-at.ensures.bytes c.requires.room from,
  same_kept _ _ _ (kept_itself (g.S.Store.contents c.args.store.now)),
  c.requires.spares,
  counts_same _ _ _ refl,
)

pub take-requires-clause-room : goal.take-requires-clause-room
take-requires-clause-room g c =
    let (all, same, spares, counts) = c.loop-found.invariant in
    let going = all c.args.taker.now c.args.store.now c.args.out.now None [] (c.requires.none c.args.taker.now c.args.store.now c.args.out.now) tt tt in
    has_room g.R.Form.stream _ _ _ _ _ _ _ _ going _ _ c.requires.few (follows_some g.R.Form.stream _ _ _ _ _ c.in-Ok-Some.is c.in-Ok-Some.field-0-is c.next_record.follows.holds-at-none)

pub returns-in-Err-take-clause-feeds : goal.returns-in-Err-take-clause-feeds
returns-in-Err-take-clause-feeds g c = λ x s o files rest from told holds.
    let (all, same, spares, counts) = c.loop-found.invariant in
    let going = all x s o files rest from told holds in
    feeds_stopped g.R.Form.stream _ _ _ _ _ _ _ _ going (Unit {0}) _ _ (g.S.Store.reads c.args.store.now c.args.name.now) (g.S.Store.reads c.take.new.store c.args.name.now) (λ xs. g.T.Taker.took x s o xs c.take.new.self c.take.new.store c.take.new.out) (λ xs y e. g.T.Taker.stopped x s o xs y e c.take.new.self c.take.new.store c.take.new.out) c.in-Err-take.error
    (follows_some g.R.Form.stream _ _ _ _ _ c.in-Ok-Some.is c.in-Ok-Some.field-0-is c.next_record.follows.holds-at-none)
    (c.in-Err-take.ensures.takes x s o going.items going.did)

pub loop-found-smaller-in_default : goal.loop-found-smaller-in_default
loop-found-smaller-in_default g c =
    let follows = follows_some g.R.Form.stream _ _ _ _ _ c.in-Ok-Some.is c.in-Ok-Some.field-0-is c.next_record.follows.holds-at-none in
    omega (arith, follows.fewer _ refl)

pub loop-found-preserved-in_default : goal.loop-found-preserved-in_default
loop-found-preserved-in_default g c =
    let (all, same, spares, counts) = c.loop-found.invariant in
    let follows = follows_some g.R.Form.stream _ _ _ _ _ c.in-Ok-Some.is c.in-Ok-Some.field-0-is c.next_record.follows.holds-at-none in (
      λ x s o files rest from told holds.
          let going = all x s o files rest from told holds in
          going_record g.R.Form.stream _ _ _ _ _ _ _ _ going _ _ _ _ follows c.in_default.ensures.room (c.in_default.ensures.takes x s o going.items going.did),
      same_both _ _ _ _ same (c.take.ensures.files _ spares),
      c.take.ensures.spares _ spares,
      counts_both _ _ _ _ counts (counts_same _ _ _ c.take.ensures.reads),
    )

pub feed_more-requires : goal.feed_more-requires
feed_more-requires g c =
    let follows = follows_none g.R.Form.stream _ _ _ _ c.in-Ok-None.is c.in-Ok-None.field-0-is c.next_record.follows.holds-at-none in
    record { room = follows.room refl }

pub end-requires : goal.end-requires
end-requires g c = still_none g.R.Form.stream _ _ _ _ _ _ _ (follows_none g.R.Form.stream _ _ _ _ c.in-Ok-None.is c.in-Ok-None.field-0-is c.next_record.follows.holds-at-none) c.in-Ok-eq0.ensures.ok (search rules)

pub returns-in-Ok-eq0-clause-feeds : goal.returns-in-Ok-eq0-clause-feeds
returns-in-Ok-eq0-clause-feeds g c = λ x s o files rest from told holds.
    let (all, same, spares, counts) = c.loop-found.invariant in
    let going = all x s o files rest from told holds in
    feeds_end g.R.Form.stream _ _ _ _ _ _ _ _ going _ (follows_none g.R.Form.stream _ _ _ _ c.in-Ok-None.is c.in-Ok-None.field-0-is c.next_record.follows.holds-at-none) _ _ _ g.met.R.Form.is_small (same_both _ _ _ _ told same) c.in-Ok-eq0.ensures.ok _
    (g.S.Store.reads c.args.store.now c.args.name.now) (g.S.Store.reads c.feed_more.new.store c.args.name.now) (λ xs. g.T.Taker.took x s o xs c.loop-found.taker c.feed_more.new.store c.loop-found.out) (λ xs y e. g.T.Taker.stopped x s o xs y e c.loop-found.taker c.feed_more.new.store c.loop-found.out) _ (search rules)
    (c.requires.read _ _ _ going.items _ _ _ _ going.did c.feed_more.ensures.contents c.feed_more.ensures.writes) c.end.ensures

pub loop-found-smaller : goal.loop-found-smaller
loop-found-smaller g c =
    let (all, same, spares, counts) = c.loop-found.invariant in
    let going = all c.args.taker.now c.args.store.now c.args.out.now None [] (c.requires.none c.args.taker.now c.args.store.now c.args.out.now) tt tt in
    let follows = follows_none g.R.Form.stream _ _ _ _ c.in-Ok-None.is c.in-Ok-None.field-0-is c.next_record.follows.holds-at-none in
    let fed = c.in-Ok.ensures.ok in
    omega (arith, follows.limit refl, follows.fed, going.fed, fed.held, fed.room, g.met.R.Form.is_small)

pub loop-found-preserved : goal.loop-found-preserved
loop-found-preserved g c =
    let (all, same, spares, counts) = c.loop-found.invariant in
    let follows = follows_none g.R.Form.stream _ _ _ _ c.in-Ok-None.is c.in-Ok-None.field-0-is c.next_record.follows.holds-at-none in (
      λ x s o files rest from told holds.
          let going = all x s o files rest from told holds in
          going_more g.R.Form.stream _ _ _ _ _ _ _ _ going _ follows _ _ _ g.met.R.Form.is_small (same_both _ _ _ _ told same) c.in-Ok.ensures.ok _
          (c.requires.read _ _ _ going.items _ _ _ _ going.did c.feed_more.ensures.contents c.feed_more.ensures.writes),
      same_both _ _ _ _ same (same_kept _ _ _ c.feed_more.ensures.contents),
      spares,
      counts_both _ _ _ _ counts c.feed_more.ensures.reads,
    )

pub returns-in-Err-Failed-clause-feeds : goal.returns-in-Err-Failed-clause-feeds
returns-in-Err-Failed-clause-feeds g c = λ x s o files rest from told holds.
    let (all, same, spares, counts) = c.loop-found.invariant in
    let going = all x s o files rest from told holds in
    feeds_failed g.R.Form.stream _ _ _ _ _ _ _ _ going _ (follows_none g.R.Form.stream _ _ _ _ c.in-Ok-None.is c.in-Ok-None.field-0-is c.next_record.follows.holds-at-none) (Unit {0})
    (g.S.Store.reads c.args.store.now c.args.name.now) (g.S.Store.reads c.feed_more.new.store c.args.name.now) (λ xs. g.T.Taker.took x s o xs c.loop-found.taker c.feed_more.new.store c.loop-found.out) (λ xs y e. g.T.Taker.stopped x s o xs y e c.loop-found.taker c.feed_more.new.store c.loop-found.out)
    (rose_since _ _ _ counts.later (rw c.in-Err-Failed.field-0-is at c.in-Err-Failed.ensures.cause))
    (c.requires.read _ _ _ going.items _ _ _ _ going.did c.feed_more.ensures.contents c.feed_more.ensures.writes)

pub returns-in-Err-OutOfMemory-clause-feeds : goal.returns-in-Err-OutOfMemory-clause-feeds
returns-in-Err-OutOfMemory-clause-feeds g c = λ x s o files rest from told holds.
    let (all, same, spares, counts) = c.loop-found.invariant in
    let going = all x s o files rest from told holds in
    feeds_memory g.R.Form.stream _ _ _ _ _ _ _ _ going _ (follows_none g.R.Form.stream _ _ _ _ c.in-Ok-None.is c.in-Ok-None.field-0-is c.next_record.follows.holds-at-none) (Unit {0})
    (g.S.Store.reads c.args.store.now c.args.name.now) (g.S.Store.reads c.feed_more.new.store c.args.name.now) (λ xs. g.T.Taker.took x s o xs c.loop-found.taker c.feed_more.new.store c.loop-found.out) (λ xs y e. g.T.Taker.stopped x s o xs y e c.loop-found.taker c.feed_more.new.store c.loop-found.out)
    (c.requires.read _ _ _ going.items _ _ _ _ going.did c.feed_more.ensures.contents c.feed_more.ensures.writes)

pub returns-in-Err-clause-feeds : goal.returns-in-Err-clause-feeds
returns-in-Err-clause-feeds g c = λ x s o files rest from told holds.
    let (all, same, spares, counts) = c.loop-found.invariant in
    let going = all x s o files rest from told holds in
    feeds_damaged g.R.Form.stream _ _ _ _ _ _ _ _ going (Unit {0}) c.in-Err.damage _
    (g.S.Store.reads c.args.store.now c.args.name.now) (g.S.Store.reads c.loop-found.store c.args.name.now) (λ xs. g.T.Taker.took x s o xs c.loop-found.taker c.loop-found.store c.loop-found.out) (λ xs y e. g.T.Taker.stopped x s o xs y e c.loop-found.taker c.loop-found.store c.loop-found.out)
    (follows_err g.R.Form.stream _ _ _ _ c.in-Err.is c.next_record.follows.holds-at-none) going.did

pub overflow_add-at : goal.overflow_add-at
overflow_add-at g c =
    let (all, same, spares, counts) = c.loop-found.invariant in
    let going = all c.args.taker.now c.args.store.now c.args.out.now None [] (c.requires.none c.args.taker.now c.args.store.now c.args.out.now) tt tt in
    let follows = follows_none g.R.Form.stream _ _ _ _ c.in-Ok-None.is c.in-Ok-None.field-0-is c.next_record.follows.holds-at-none in
    let fed = c.in-Ok.ensures.ok in
    omega (arith, follows.limit refl, follows.fed, going.fed, fed.held, fed.room, g.met.R.Form.is_small)
