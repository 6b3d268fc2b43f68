pub mod Texts
pub mod Reads
pub mod TwoTexts
pub use Rattle.model.specs.Linearizable
pub use Rattle.events.specs.Events
pub use Rattle.edn.specs.Given
pub use Rattle.edn.specs.Ins
