-- Laws of the definitions: what is proved of the tails (Bounds), on what (Leaning, Small, RootPositive), the values at the edges, and the table.
pub mod Leaning
pub mod Small
pub mod RootPositive
pub mod Bounds
pub mod Edges
pub mod Beyond
pub mod Outcomes
pub mod PlaceLaws
