-- A grant has one kind. Assumes nothing.
use Rattle.std.proofs.Common.{◌≡◌, true, false, refl}
use Rattle.model.specs.Grants.{Kind, globals, block, frame, is_block, is_frame}

pub block_is : (k : Kind) → is_block k ≡ true → k ≡ block
block_is globals e = cc
block_is block e = refl
block_is frame e = cc

pub block_not_frame : (k : Kind) → is_block k ≡ true → is_frame k ≡ false
block_not_frame globals e = refl
block_not_frame block e = refl
block_not_frame frame e = cc

pub frame_not_block : (k : Kind) → is_frame k ≡ true → is_block k ≡ false
frame_not_block globals e = refl
frame_not_block block e = cc
frame_not_block frame e = refl
