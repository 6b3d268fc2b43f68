pub mod ThreeOperations
