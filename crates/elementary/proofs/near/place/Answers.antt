use Rattle.elementary.proofs.PlaceLaws.{may-be-asked}
use Rattle.elementary.proofs.near.place.Goals as goal

pub float_to_bits-b : goal.float_to_bits-b
float_to_bits-b c = may-be-asked _ c.requires
