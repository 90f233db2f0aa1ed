mod Literals
