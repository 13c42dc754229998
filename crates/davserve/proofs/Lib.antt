mod Anyway
