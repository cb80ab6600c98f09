-- Why the system's error refuses an open.
use Rattle.blob_host.specs.declared.open_error.OpenError.{OpenError}
use Rattle.blob_host.specs.declared.open_error.OpenError.TheVariants.{NotAFile, FolderMissing, LinkLoop}
use Rattle.std.specs.declared.io.ErrorKind.{ErrorKind}
use Rattle.std.specs.declared.io.ErrorKind.TheVariants.{NotFound, NotADirectory, IsADirectory, PermissionDenied, ReadOnlyFilesystem, FilesystemLoop}

-- the refusal for an error of this kind: what stands for one without leave, for a missing name, and for any other
abbrev pub refusal_of : OpenError → OpenError → OpenError → ErrorKind → OpenError
refusal_of denied absent other PermissionDenied = denied
refusal_of denied absent other ReadOnlyFilesystem = denied
refusal_of denied absent other NotFound = absent
refusal_of denied absent other NotADirectory = FolderMissing
refusal_of denied absent other IsADirectory = NotAFile
refusal_of denied absent other FilesystemLoop = LinkLoop
refusal_of denied absent other _ = other
