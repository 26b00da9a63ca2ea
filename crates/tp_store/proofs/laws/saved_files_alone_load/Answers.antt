use Rattle.tp_store.proofs.WholeFile.{loaded_takes, loaded_of}
use Rattle.tp_store.proofs.laws.saved_files_alone_load.Goals as goal

pub returns : goal.returns
returns c bytes id C fits = (loaded_takes bytes id C fits, loaded_of bytes id C)
