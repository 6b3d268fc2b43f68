pub mod Streams
pub mod DrawnCalls
pub mod Works
pub mod Meetings
pub mod NewClients
pub mod Ends
pub mod Workers
