pub mod Document
pub mod Full
pub mod Sheets
pub mod Scan
pub mod Figures
pub mod Work
