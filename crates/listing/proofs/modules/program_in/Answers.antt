use Rattle.std.proofs.Common.{◌∙◌, arith}
use Rattle.listing.proofs.Fronts.{reads_within, reads_front}
use Rattle.listing.proofs.modules.program_in.Goals as goal

pub slice_bounds-vet-end : goal.slice_bounds-vet-end
slice_bounds-vet-end c =
    let within = reads_within _ _ _ c.in_ok-count.count c.in_ok-count.ensures.value c.in_ok-count.ensures.after in
    omega arith

pub returns : goal.returns
returns c = c.vet.ensures.value ∙ reads_front _ _ _ c.in_ok-count.count c.in_ok-count.ensures.value c.in_ok-count.ensures.after
