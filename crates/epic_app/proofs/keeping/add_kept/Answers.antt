use Rattle.std.specs.Prelude.{◌++◌, option_map}
use Rattle.epic_app.specs.Added.{added_to}
use Rattle.epic_app.specs.Keeping.{kept_in}
use Rattle.epic_app.proofs.StoreLaws.{first_stops, is_ledger, is_saved, is_verdicts, then_acts}
use Rattle.epic_app.proofs.keeping.add_kept.Goals as goal

pub returns-in-Ok : goal.returns-in-Ok
returns-in-Ok g c =
    let k = c.args.keep.now in
    let s = option_map (λ (name : _). name.now) k.save in
    let l = option_map (λ (name : _). name.now) k.ledger in
    let v = option_map (λ (name : _). name.now) k.verdicts in
    then_acts (kept_in k) _ _ _ _ _ _ _ _ _ _ _ _ (rw c.deref.ensures.value at (c.in-Ok.ensures (kept_in k) (is_saved s l v))) (rw (c.deref-in-Ok.ensures.value, c.deref-in-Ok-2.ensures.value) at (c.add_two.ensures (kept_in k) (is_ledger s l v) (is_verdicts s l v)))

pub returns-in-Err : goal.returns-in-Err
returns-in-Err g c =
    let k = c.args.keep.now in
    let s = option_map (λ (name : _). name.now) k.save in
    let l = option_map (λ (name : _). name.now) k.ledger in
    let v = option_map (λ (name : _). name.now) k.verdicts in
    first_stops (kept_in k) _ (added_to l c.args.added.now.ledger.items ++ added_to v c.args.added.now.verdicts.items) _ _ _ _ _ _ _ (rw c.deref.ensures.value at (c.in-Err.ensures (kept_in k) (is_saved s l v)))
