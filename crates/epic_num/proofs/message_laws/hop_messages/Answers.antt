use Rattle.epic_num.proofs.MessageLaws as laws
use Rattle.epic_num.proofs.message_laws.hop_messages.Goals as goal

pub returns-clause-authenticators : goal.returns-clause-authenticators
returns-clause-authenticators c = laws.authenticator_messages

pub returns-clause-links : goal.returns-clause-links
returns-clause-links c = laws.link_messages
