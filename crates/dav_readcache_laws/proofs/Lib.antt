pub mod AlikeOpen
pub mod BodiesSound
pub mod Joined
pub mod LocalAll
pub mod RuledCache
