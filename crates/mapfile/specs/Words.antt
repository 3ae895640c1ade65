-- What is printed of a fault: where it lies.
use Rattle.std.specs.Prelude.{ℕ, List, ◌++◌, codes, decimal}
use Rattle.mapfile.specs.declared.fault.Fault.{Fault}
use Rattle.mapfile.specs.declared.fault.Layer.{Layer}
use Rattle.mapfile.specs.declared.fault.Layer.TheVariants.{Contents, Body, Record}

abbrev pub layer_words : Layer → List ℕ
layer_words Contents = codes "map contents at"
layer_words Body = codes "map body at"
layer_words Record = codes "map record at"

abbrev pub fault_words : Fault → List ℕ
fault_words f = layer_words f.layer ++ (codes " " ++ decimal f.byte)
