pub mod EventsFound
pub mod SegmentsLeft
