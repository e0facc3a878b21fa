use Rattle.std.proofs.Common.{sym, subst}
use Rattle.epic_keys.specs.Fetches.{Fetch, Fetches, FetchSet, Adds, Keeps, is_fetched}
use Rattle.epic_keys.proofs.FetchLemmas.{added_fetch, same_fetched}
use Rattle.epic_keys.proofs.key_store.KeyStore.fetch.Goals as goal
use Rattle.epic_keys.proofs.key_store.KeyStore.fetch.Goals.{in-Ok, in-Err}

pub returns : goal.returns
returns c =
    let old = c.args.self.now in
    let stored = c.self.inside.fetches in
    let new = c.insert.new.self in
    let fetch : Fetch = record { source = c.args.source; owner = c.args.owner; epoch = c.args.epoch } in
    elim c.match-insert.branch [
      | in-Ok w ↦ subst (Fetches (is_fetched old) (is_fetched new) fetch) (sym w.result-is)
          (sym c.if-is_known.ensures, subst (λ (s : FetchSet). Adds (is_fetched s) (is_fetched new) fetch) c.self.view_is (added_fetch stored new fetch w.in-Ok.ensures.updates))
      | in-Err w ↦ subst (Fetches (is_fetched old) (is_fetched new) fetch) (sym w.result-is)
          (subst (λ (s : FetchSet). Keeps (is_fetched s) (is_fetched new)) c.self.view_is (same_fetched stored new w.in-Err.ensures.err))
    ]
