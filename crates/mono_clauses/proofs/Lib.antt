mod PlacesAhead
mod WatchLists
mod DueClauses
mod FlatLists
pub mod FollowsKept
pub mod Growth
mod LateWatches
mod Literals
mod OneWatcher
mod OldAndNew
mod ChunkPool
mod ShortClauses
mod ChunkStacks
mod WholeStore
mod Times
mod AllWatchers
mod WatchGuards
mod Watched
