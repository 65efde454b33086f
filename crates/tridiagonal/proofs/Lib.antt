pub mod ReflectionLaws
mod ImageLaws
mod UpdateLaws
pub mod Examples
