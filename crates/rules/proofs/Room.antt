-- How much room a write can take: its blocks on the tally, what it does to the bitmap, and both of a store in order.
pub mod RoomTally
pub mod RoomBits
pub mod RoomStore
