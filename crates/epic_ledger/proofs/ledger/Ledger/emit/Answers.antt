use Rattle.std.proofs.Common.{[], ◌∷◌}
use Rattle.epic_ledger.proofs.PassLaws.{passes_emit}
use Rattle.epic_ledger.proofs.PathLaws.{paths_emit}
use Rattle.epic_ledger.proofs.SendLaws.{sends_emit}
use Rattle.epic_layout.proofs.Cuts.{IsBytes-from}
use Rattle.epic_ledger.proofs.Growing.{lawful_emit, spelled_in}
use Rattle.epic_ledger.proofs.ledger.Ledger.emit.Goals as goal

pub invariant_of-self : goal.invariant_of-self
invariant_of-self c =
    rw c.push.ensures.emissions
    (record {
      lawful =
          lawful_emit c.self.inside.log.events c.self.inside.emissions.emissions (record { place = c.args.place; bytes = c.args.bytes.now })
          c.self.invariant.lawful (spelled_in (record { place = c.args.place; bytes = c.args.bytes.now }) (IsBytes-from _ c.type_inv.bytes) c.requires.faultless);
      sends = sends_emit _ _ (record { place = c.args.place; bytes = c.args.bytes.now } ∷ []) _ _ c.self.invariant.lawful c.self.invariant.sends;
      passes = passes_emit _ _ (record { place = c.args.place; bytes = c.args.bytes.now } ∷ []) _ _ c.self.invariant.lawful c.self.invariant.passes;
      on_paths = paths_emit _ _ (record { place = c.args.place; bytes = c.args.bytes.now } ∷ []) _ _ c.self.invariant.lawful c.self.invariant.on_paths;
      reveals = c.self.invariant.reveals;
    })
