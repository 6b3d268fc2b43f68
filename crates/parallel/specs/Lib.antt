pub mod Shares
pub mod Gathered
pub use Rattle.model.specs.Objects
pub use Rattle.model.specs.Orders
pub use Rattle.events.specs.Events
pub use Rattle.events.specs.Operations
pub use Rattle.checker.specs.Refusals
