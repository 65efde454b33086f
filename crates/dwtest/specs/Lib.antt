pub mod Layout
pub mod Verdict
pub mod Test
pub mod Vouched
