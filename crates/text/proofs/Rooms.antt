-- The laws of text put into a room: those of bytes, in the crate `wire`.
pub use Rattle.wire.proofs.buffer.Reach.{joined, retold, nothing}
