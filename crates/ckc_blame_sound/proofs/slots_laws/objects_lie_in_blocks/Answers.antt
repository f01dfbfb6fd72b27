use Rattle.ckc_blame_sound.proofs.Objects.{object_cell}
use Rattle.ckc_blame_sound.proofs.slots_laws.objects_lie_in_blocks.Goals as goal

pub returns : goal.returns
returns c = λ p blocks place k offset width o sound e plain some part. object_cell p blocks sound.memory.objects k o e plain some offset width part
