pub mod Events
pub mod Operations
pub use Rattle.model.specs.Objects
pub use Rattle.model.specs.Histories
pub use Rattle.model.specs.Linearizable
pub use Rattle.model.specs.Orders
