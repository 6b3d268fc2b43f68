pub mod Named
pub mod Uses
pub mod KindsCounted
pub mod LinesLeft
