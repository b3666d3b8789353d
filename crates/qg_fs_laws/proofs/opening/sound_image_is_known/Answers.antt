use Rattle.qg_fs_laws.proofs.SoundImage.{image-known, others-known}
use Rattle.qg_fs_laws.proofs.opening.sound_image_is_known.Goals as goal

pub returns-clause-known : goal.returns-clause-known
returns-clause-known c = image-known

pub returns-clause-others : goal.returns-clause-others
returns-clause-others c = λ super image quota sound chosen is. others-known super image sound chosen quota is
