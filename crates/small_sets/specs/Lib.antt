pub mod Small
pub mod Lines
pub mod Every
pub mod Inner
