-- What the contracts of one kind of objects alone need.
pub mod Map
