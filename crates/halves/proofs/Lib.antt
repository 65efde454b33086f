pub mod StoreLaws
mod StepLaws
mod CopyLaws
