use Rattle.std.proofs.Common.{List, ◌++◌, Err, subst}
use Rattle.std.specs.Prelude.{option_map}
use Rattle.epic_capture.specs.Saving.{file_head}
use Rattle.epic_app.specs.Acts.{Act}
use Rattle.epic_app.specs.Added.{StoreActs, added_to, made_of}
use Rattle.epic_app.specs.Keeping.{kept_in}
use Rattle.epic_app.proofs.StoreLaws.{first_stops, is_ledger, is_saved, is_verdicts, opening_is, then_acts}
use Rattle.epic_app.proofs.keeping.open_kept.Goals as goal

pub returns-in-Ok : goal.returns-in-Ok
returns-in-Ok g c =
    let k = c.args.keep.now in
    let s = option_map (λ (name : _). name.now) k.save in
    let l = option_map (λ (name : _). name.now) k.ledger in
    let v = option_map (λ (name : _). name.now) k.verdicts in
    subst (λ (acts : List Act). StoreActs (kept_in k) acts (g.S.Store.contents c.args.store.now) (g.S.Store.reads c.args.store.now) (g.S.Store.writes c.args.store.now)
    (g.S.Store.contents c.make_two.new.store) (g.S.Store.reads c.make_two.new.store) (g.S.Store.writes c.make_two.new.store) c.make_two.result) (opening_is s l v)
    (then_acts (kept_in k) _ _ _ _ _ _ _ _ _ _ _ _ (c.in-Ok.ensures (kept_in k) (is_saved s l v)) (c.make_two.ensures (kept_in k) (is_ledger s l v) (is_verdicts s l v)))

pub returns-in-Err : goal.returns-in-Err
returns-in-Err g c =
    let k = c.args.keep.now in
    let s = option_map (λ (name : _). name.now) k.save in
    let l = option_map (λ (name : _). name.now) k.ledger in
    let v = option_map (λ (name : _). name.now) k.verdicts in
    subst (λ (acts : List Act). StoreActs {X = Unit {0}} (kept_in k) acts (g.S.Store.contents c.args.store.now) (g.S.Store.reads c.args.store.now) (g.S.Store.writes c.args.store.now)
    (g.S.Store.contents c.open_capture.new.store) (g.S.Store.reads c.open_capture.new.store) (g.S.Store.writes c.open_capture.new.store) (Err c.in-Err.error)) (opening_is s l v)
    (first_stops (kept_in k) (made_of s ++ added_to s file_head) (made_of l ++ made_of v) _ _ _ _ _ _ _ (c.in-Err.ensures (kept_in k) (is_saved s l v)))
