-- The default standard library, module by module: the project's own list, with no claim that it is whole.
use Rattle.std.specs.Prelude.{codes, ℕ, List, [], ◌∷◌}

-- the modules that count as the standard library where no setting says otherwise
unfoldable pub standard_library : List (List ℕ)
standard_library =
    codes "abc" ∷ codes "argparse" ∷ codes "array" ∷ codes "ast" ∷ codes "asyncio" ∷ codes "atexit" ∷ codes "base64"
    ∷ codes "bisect" ∷ codes "builtins" ∷ codes "bz2" ∷ codes "calendar" ∷ codes "cmath" ∷ codes "cmd" ∷ codes "code"
    ∷ codes "codecs" ∷ codes "collections" ∷ codes "colorsys" ∷ codes "compileall" ∷ codes "concurrent"
    ∷ codes "configparser" ∷ codes "contextlib" ∷ codes "contextvars" ∷ codes "copy" ∷ codes "copyreg" ∷ codes "csv"
    ∷ codes "ctypes" ∷ codes "curses" ∷ codes "dataclasses" ∷ codes "datetime" ∷ codes "dbm" ∷ codes "decimal"
    ∷ codes "difflib" ∷ codes "dis" ∷ codes "doctest" ∷ codes "email" ∷ codes "encodings" ∷ codes "enum"
    ∷ codes "errno" ∷ codes "faulthandler" ∷ codes "fcntl" ∷ codes "filecmp" ∷ codes "fileinput" ∷ codes "fnmatch"
    ∷ codes "fractions" ∷ codes "ftplib" ∷ codes "functools" ∷ codes "gc" ∷ codes "getopt" ∷ codes "getpass"
    ∷ codes "gettext" ∷ codes "glob" ∷ codes "graphlib" ∷ codes "grp" ∷ codes "gzip" ∷ codes "hashlib" ∷ codes "heapq"
    ∷ codes "hmac" ∷ codes "html" ∷ codes "http" ∷ codes "imaplib" ∷ codes "importlib" ∷ codes "inspect" ∷ codes "io"
    ∷ codes "ipaddress" ∷ codes "itertools" ∷ codes "json" ∷ codes "keyword" ∷ codes "linecache" ∷ codes "locale"
    ∷ codes "logging" ∷ codes "lzma" ∷ codes "mailbox" ∷ codes "marshal" ∷ codes "math" ∷ codes "mimetypes"
    ∷ codes "mmap" ∷ codes "multiprocessing" ∷ codes "netrc" ∷ codes "numbers" ∷ codes "operator" ∷ codes "os"
    ∷ codes "pathlib" ∷ codes "pdb" ∷ codes "pickle" ∷ codes "pkgutil" ∷ codes "platform" ∷ codes "plistlib"
    ∷ codes "poplib" ∷ codes "posixpath" ∷ codes "pprint" ∷ codes "profile" ∷ codes "pstats" ∷ codes "pty"
    ∷ codes "pwd" ∷ codes "queue" ∷ codes "quopri" ∷ codes "random" ∷ codes "re" ∷ codes "readline" ∷ codes "reprlib"
    ∷ codes "resource" ∷ codes "runpy" ∷ codes "sched" ∷ codes "secrets" ∷ codes "select" ∷ codes "selectors"
    ∷ codes "shelve" ∷ codes "shlex" ∷ codes "shutil" ∷ codes "signal" ∷ codes "site" ∷ codes "smtplib"
    ∷ codes "socket" ∷ codes "socketserver" ∷ codes "sqlite3" ∷ codes "ssl" ∷ codes "stat" ∷ codes "statistics"
    ∷ codes "string" ∷ codes "struct" ∷ codes "subprocess" ∷ codes "symtable" ∷ codes "sys" ∷ codes "sysconfig"
    ∷ codes "syslog" ∷ codes "tempfile" ∷ codes "termios" ∷ codes "textwrap" ∷ codes "threading" ∷ codes "time"
    ∷ codes "timeit" ∷ codes "tkinter" ∷ codes "token" ∷ codes "tokenize" ∷ codes "tomllib" ∷ codes "trace"
    ∷ codes "traceback" ∷ codes "tracemalloc" ∷ codes "tty" ∷ codes "turtle" ∷ codes "types" ∷ codes "typing"
    ∷ codes "unicodedata" ∷ codes "unittest" ∷ codes "urllib" ∷ codes "uuid" ∷ codes "venv" ∷ codes "warnings"
    ∷ codes "wave" ∷ codes "weakref" ∷ codes "webbrowser" ∷ codes "winreg" ∷ codes "wsgiref" ∷ codes "xml"
    ∷ codes "xmlrpc" ∷ codes "zipapp" ∷ codes "zipfile" ∷ codes "zipimport" ∷ codes "zlib" ∷ codes "zoneinfo" ∷ []
