pub mod Workloads
pub mod Kinds
pub mod Drawing
pub mod Made
pub use Rattle.model.specs.Objects
