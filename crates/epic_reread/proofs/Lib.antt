pub mod Bytes
mod Clean
mod Forms
mod HeldVerdicts
mod LedgerFiles
mod LedgerForms
mod LedgerWords
mod JudgedTrue
mod OtherHops
pub mod PacketBytes
mod PlacedItems
mod Printed
mod Readings
mod RunVerdicts
pub mod TagsAreBytes
mod Texts
mod WholeFiles
mod WholeLines
