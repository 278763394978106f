pub mod BytesLaws
pub mod EditionsLaws
pub mod FormatLaws
pub mod PrintLaws
pub mod Examples
