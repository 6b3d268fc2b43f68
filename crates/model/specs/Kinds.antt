-- The sequential specification of each kind of object, in a file of its own: what it contains, and
-- its one step, which is what an operation leaves and replies. Herlihy and Wing, TOPLAS 1990,
-- section 2.
pub mod Queue
pub mod Stack
pub mod Heap
pub mod Register
pub mod Map
pub mod Mutex
pub mod Set
pub mod Counter
pub mod Lock
