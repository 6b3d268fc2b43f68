pub mod Denotes
pub mod Faults
pub mod Lines
pub mod Inside
pub mod UsualForms
pub mod Texts
pub use Rattle.edn_reader.specs.Datum
pub use Rattle.edn_reader.specs.View
