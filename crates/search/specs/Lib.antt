pub mod Answers
pub use Rattle.model.specs.Orders
pub use Rattle.events.specs.Operations
pub use Rattle.model.specs.Linearizable
pub use Rattle.events.specs.Events
pub use Rattle.checker.specs.Refusals
pub use Rattle.order_search.specs.Outcomes
