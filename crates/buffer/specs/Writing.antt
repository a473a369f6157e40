-- Bytes written into a buffer.
use Rattle.std.specs.Prelude.{ℕ}
use Rattle.std.proofs.lemmas.List.Edits.{sets}
use Rattle.text.specs.Bytes.{Bytes}

-- The bytes v from a place on, as far as there is room.
unfoldable pub written : Bytes → ℕ → Bytes → Bytes
written h at v = sets h at v
