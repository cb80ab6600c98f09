-- Printed by pagable_derive: change the declaration instead.
-- How the values of each type are encoded.
use Rattle.history.specs.declared.{commit.Commit.Commit, file.File.File, folder.Folder.Folder}
use Rattle.pagable_nodes.specs.Encoding.{Encoding, fields, four, holding, many, number, one, optional, text, three}
use Rattle.std.specs.{Int.w64, Prelude.false}

abbrev pub commit_encoding : Encoding Commit
commit_encoding = fields (λ x. (x.time, x.message, x.parent, x.merged))
    (four (number w64) text (optional (one 1)) (optional (one 1)))

abbrev pub file_encoding : Encoding File
file_encoding = fields (λ x. (x.length, x.text, x.folder)) (three (number w64) text (optional (one 7)))

abbrev pub folder_encoding : Encoding Folder
folder_encoding = fields (λ x. (x.name, x.added_in, x.readme, x.files))
    (four text (one 1) (holding {T = File} {sort = 0} 1 false) (many (one 4)))
