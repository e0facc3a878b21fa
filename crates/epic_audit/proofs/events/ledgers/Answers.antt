use Rattle.epic_audit.proofs.Growth.{events_are_lawful, emissions_add_nothing, emissions_are_lawful, lawful_packets}
use Rattle.epic_audit.proofs.Keeping.{nothing_is_kept, events_keep, names_stay}
use Rattle.epic_audit.proofs.events.ledgers.Goals as goal

pub returns : goal.returns
returns c = record {
  none = nothing_is_kept;
  kept = events_keep;
  lawful = events_are_lawful;
  same_facts = emissions_add_nothing;
  still_lawful = emissions_are_lawful;
  packets = lawful_packets;
  names = names_stay;
}
