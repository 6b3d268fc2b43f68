pub mod Faults
pub mod Ends
pub mod Refusals
pub mod Checking
pub use Rattle.model.specs.Objects
pub use Rattle.model.specs.Orders
pub use Rattle.events.specs.Events
pub use Rattle.events.specs.Operations
