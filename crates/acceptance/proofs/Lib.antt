pub mod StoreLaws
pub mod SpdLaws
pub mod StepsLaws
