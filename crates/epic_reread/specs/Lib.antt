pub mod Fitting
pub mod LedgerFitting
pub mod LedgerRereading
pub mod JudgedYes
pub mod Rereading
pub mod WholeFile
