use Rattle.epic_layout.proofs.OneSpelling.{packets_are_spelled, spellings_are_one, packets_are_one, bytes_are_read}
use Rattle.epic_layout.proofs.Faultless.{length-spelling}
use Rattle.epic_layout.proofs.SamePacket.{valid_packets_are_one}
use Rattle.epic_layout.proofs.laws.spellings.Goals as goal

pub returns : goal.returns
returns c = record {
  spelled = packets_are_spelled;
  one_spelling = spellings_are_one;
  one_packet = packets_are_one;
  lengths = length-spelling;
  one_value = valid_packets_are_one;
  read = bytes_are_read;
}
