use Rattle.epic_keys.proofs.FetchLemmas.{none_fetched}
use Rattle.epic_keys.proofs.key_store.KeyStore.new.Goals as goal

pub returns : goal.returns
returns c = none_fetched c.new.result c.new.ensures.empty
